pub mod Parts
pub mod Found
pub mod Flat
pub mod Unique
pub mod Within
