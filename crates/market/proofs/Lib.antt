pub mod Products
pub mod Rounds
pub mod Totals
