pub mod Safe
pub mod Overflow
pub mod Laws
pub mod Examples
pub mod OverflowExamples
