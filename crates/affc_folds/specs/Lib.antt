pub mod Folding
pub mod Systems
pub mod Tries
pub mod Laws
pub mod Examples
