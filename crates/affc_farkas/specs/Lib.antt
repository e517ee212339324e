pub mod Multiples
pub mod Proofs
pub mod Chain
pub mod Rational
pub mod Eliminations
pub mod Examples
pub mod Measures
pub mod Depths
