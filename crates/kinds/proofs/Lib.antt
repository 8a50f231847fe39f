pub mod Steps
pub mod Fitting
