pub mod Numbers
pub mod Symbols
pub mod Drafts
