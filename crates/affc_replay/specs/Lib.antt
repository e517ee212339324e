pub mod Folds
pub mod Scalars
pub mod Replays
pub mod Made
pub mod Refusals
pub mod Laws
