pub mod Ahead
pub mod Callees
pub mod Readers
pub mod IxReading
pub mod CondReading
pub mod ValueTests
pub mod ValueReading
pub mod draft
