pub mod Moves
pub mod Searches
pub mod Unwritten
pub mod Finds
pub mod Guesses
