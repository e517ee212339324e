pub mod Steps
pub mod Found
pub mod Flat
pub mod Unique
pub mod Within
pub mod Words
