pub mod Questions
pub mod Laws
pub mod Examples
pub mod Asked
pub mod Writers
