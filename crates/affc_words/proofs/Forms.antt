-- The forms, one by one, and what their proofs share.
pub mod Shared
pub mod Fold
pub mod Replay
pub mod Run
pub mod Flow
pub mod Big
