pub mod Ladder
pub mod Lawfuls
pub mod Offers
pub mod RowLists
pub mod Rows
