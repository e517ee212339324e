pub mod Projections
pub mod States
pub mod Answers
pub mod Examples
