pub mod Digits
pub mod Cuts
pub mod Cards
pub mod Appends
