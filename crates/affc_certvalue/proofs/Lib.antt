pub mod Steps
pub mod Lengths
pub mod Parts
pub mod Keyed
pub mod Found
pub mod Flat
pub mod Unique
pub mod Within
