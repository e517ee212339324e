pub mod Lexed
pub mod Uses
pub mod Plain
pub mod Turns
pub mod Stands
pub mod Verdicts
pub mod Walks
pub mod Levels
