pub mod Opposites
pub mod Latest
pub mod Stores
