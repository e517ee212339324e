pub mod Violations
pub mod Answers
pub mod Answered
pub mod Legal
