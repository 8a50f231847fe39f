pub mod Cells
pub mod Verbs
pub mod Laws
