pub mod Named
pub mod Layers
pub mod Accesses
pub mod Touched
pub mod Iterators
pub mod Meant
pub mod Telling
pub mod ExampleProofs
