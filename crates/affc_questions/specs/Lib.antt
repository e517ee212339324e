pub mod Sizes
pub mod Asked
pub mod Listed
pub mod Laws
pub mod Tails
