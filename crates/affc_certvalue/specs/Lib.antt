pub mod Values
pub mod Verdicts
pub mod Keys
pub mod Limits
pub mod proof
pub mod fold
