pub mod Best
pub mod Downward
pub mod Held
pub mod Integers
pub mod Profits
