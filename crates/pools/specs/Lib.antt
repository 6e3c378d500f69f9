pub mod Amounts
pub mod Bases
pub mod Sharing
