pub mod Same
pub mod Rows
pub mod ScanLaws
pub mod Tight
pub mod ExampleProofs
pub mod Refusals
pub mod Numbered
