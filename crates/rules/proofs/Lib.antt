pub mod Worked
pub mod Roles
pub mod Counting
pub mod Fit
pub mod Bounds
pub mod Bonds
pub mod Accepted
