pub mod Rewrite
pub mod Laws
pub mod Examples
pub mod Sizes
pub mod Sight
