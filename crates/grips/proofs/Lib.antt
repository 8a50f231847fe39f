pub mod Stripped
pub mod Marking
pub mod Listing
pub mod Answering
pub mod Taken
pub mod Proposing
