pub mod Numbers
pub mod Words
pub mod Sorts
pub mod Reading
pub mod Lines
pub mod Faults
