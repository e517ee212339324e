pub mod Stops
pub mod ExampleProofs
