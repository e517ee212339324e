pub mod Answers
pub mod Calls
pub mod Parts
pub mod StmtReading
pub mod TextReading
