pub mod Steps
pub mod Zeros
pub mod Gripping
pub mod Pulls
pub mod Keeps
