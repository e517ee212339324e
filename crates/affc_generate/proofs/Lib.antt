pub mod Texts
pub mod ExampleProofs
