pub mod Sums
pub mod Sizes
