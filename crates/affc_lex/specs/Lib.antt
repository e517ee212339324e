pub mod Bytes
pub mod Pieces
pub mod Lexes
pub mod Faults
pub mod Reading
pub mod FoundAt
pub mod Cutting
