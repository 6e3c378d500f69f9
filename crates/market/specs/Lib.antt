pub mod Amounts
pub mod Cents
pub mod Figures
pub mod Positions
pub mod Sides
pub mod Trades
pub mod Views
pub mod SideLadderLemmas
