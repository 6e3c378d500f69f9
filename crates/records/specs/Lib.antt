pub mod Contents
pub mod Held
