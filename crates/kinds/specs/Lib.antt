pub mod Coords
pub mod Laws
pub mod Outcomes
pub mod Models
pub mod Dots
pub mod Lists
