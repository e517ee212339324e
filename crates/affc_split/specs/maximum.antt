pub mod Regions
pub mod Gaps
pub mod Searches
