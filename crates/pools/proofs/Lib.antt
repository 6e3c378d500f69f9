pub mod Dividing
pub mod Signs
pub mod Weighing
