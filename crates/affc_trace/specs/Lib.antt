pub mod Law
pub mod Orders
pub mod Inverses
pub mod Target
pub mod Effects
pub mod Dataflow
pub mod Laws
pub mod Examples
