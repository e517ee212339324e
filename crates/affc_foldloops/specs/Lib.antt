pub mod Placed
pub mod Refolds
pub mod Laws
pub mod Examples
