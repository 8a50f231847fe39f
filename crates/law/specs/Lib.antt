pub mod Placings
pub mod Histories
pub mod Law
pub mod Standing
pub mod Plenty
pub mod Facts
pub mod Run
