pub mod Conditions
pub mod Questions
pub mod Laws
pub mod Examples
pub mod differences
