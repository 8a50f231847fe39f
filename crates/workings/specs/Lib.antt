pub mod Chosen
pub mod Rows
pub mod Shown
pub mod Facts
