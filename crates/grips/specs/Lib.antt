pub mod Spares
pub mod Shown
