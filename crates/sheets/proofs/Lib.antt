pub mod Sizes
pub mod Writing
pub mod Combining
pub mod Fit
pub mod Gaps
