pub mod Known
pub mod Sights
pub mod Plain
pub mod Shape
pub mod Work
pub mod Kept
