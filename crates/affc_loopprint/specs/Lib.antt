pub mod Short
pub mod Spare
pub mod Rows
pub mod Laws
pub mod Examples
pub mod reprint
