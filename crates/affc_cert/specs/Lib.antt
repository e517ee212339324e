pub mod Certificates
pub mod Values
pub mod Refusals
pub mod Drafts
pub mod Limits
pub mod Examples
pub mod Within
pub mod tree
