pub mod Posed
pub mod Spread
pub mod Systems
pub mod Asked
pub mod Placed
pub mod Laws
pub mod Examples
