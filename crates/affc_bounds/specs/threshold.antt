pub mod Thresholds
pub mod Examples
