pub mod Turned
pub mod Distances
pub mod Decided
pub mod ExampleProofs
pub mod Marks
