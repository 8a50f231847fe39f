pub mod Lists
pub mod Numbers
pub mod Halves
pub mod Shares
pub mod Counting
pub mod Made
pub mod Bonds
