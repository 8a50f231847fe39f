pub mod Steps
pub mod Stopped
pub mod Multiple
pub mod Settling
