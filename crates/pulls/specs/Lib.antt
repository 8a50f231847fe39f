pub mod Steps
pub mod Finish
