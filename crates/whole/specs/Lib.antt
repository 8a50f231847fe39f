pub mod Lists
pub mod Sums
pub mod Tests
pub mod Gcd
pub mod Laws
