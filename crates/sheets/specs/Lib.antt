pub mod Shown
pub mod Gap
