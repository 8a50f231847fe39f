pub mod Terms
pub mod Carrying
pub mod Chosen
pub mod Lowering
pub mod Written
