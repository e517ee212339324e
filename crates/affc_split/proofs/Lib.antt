pub mod Openings
pub mod Answers
pub mod ExampleProofs
pub mod Spending
pub mod Quotients
