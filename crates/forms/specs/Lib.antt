pub mod Forms
pub mod Keywords
pub mod Values
pub mod Rows
pub mod Points
pub mod Laws
pub mod Leads
