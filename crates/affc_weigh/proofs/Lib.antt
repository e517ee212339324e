pub mod Stopped
pub mod LeastPowers
pub mod Rising
pub mod StoredCosts
pub mod ExampleProofs
pub mod Cheapest
pub mod Tops
