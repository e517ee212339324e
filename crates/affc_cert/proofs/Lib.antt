pub mod Keyed
pub mod Tops
pub mod Found
pub mod Flat
pub mod Unique
pub mod Broken
pub mod ExampleProofs
pub mod Within
