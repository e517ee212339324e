pub mod Entries
pub mod Bases
pub mod Values
pub mod Folds
pub mod Drafts
pub mod Limits
