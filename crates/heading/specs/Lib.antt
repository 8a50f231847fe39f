pub mod Names
pub mod Headings
