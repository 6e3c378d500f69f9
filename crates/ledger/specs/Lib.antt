pub mod Days
pub mod Entries
pub mod Faults
pub mod Ledgers
pub mod Numbers
pub mod Postings
pub mod Settling
pub mod Tables
