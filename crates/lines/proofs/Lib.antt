pub mod Sayings
pub mod Whole
