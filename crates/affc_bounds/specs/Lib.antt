pub mod Spots
pub mod Faults
pub mod Found
pub mod Looks
pub mod Laws
pub mod Examples
pub mod threshold
