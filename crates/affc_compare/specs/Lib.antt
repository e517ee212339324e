pub mod Compared
pub mod Asked
pub mod Timed
pub mod Sharing
pub mod Source
pub mod Examples
