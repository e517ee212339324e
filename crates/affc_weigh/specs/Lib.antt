pub mod Costs
pub mod Choices
pub mod Laws
pub mod Examples
