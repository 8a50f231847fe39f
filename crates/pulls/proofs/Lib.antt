pub mod Numbers
pub mod Within
pub mod Finishing
pub mod Solving
pub mod Proposing
pub mod Counted
pub mod Calling
pub mod Numbered
