pub mod Proofs
pub mod Values
pub mod Verdicts
pub mod Stacks
pub mod Limits
