pub mod Keyed
pub mod Found
pub mod Flat
pub mod Unique
pub mod Products
pub mod Within
