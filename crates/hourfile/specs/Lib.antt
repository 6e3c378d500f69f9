pub mod Files
pub mod HourAnswers
pub mod Hours
pub mod Lines
pub mod Tallies
