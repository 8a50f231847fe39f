pub mod Solid
pub mod Laws
