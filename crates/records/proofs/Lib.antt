pub mod Answering
pub mod Finding
pub mod Holding
pub mod Making
pub mod Passing
pub mod Ranges
pub mod RowRules
