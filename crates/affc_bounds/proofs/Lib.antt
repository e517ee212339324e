pub mod OrderLemmas
pub mod ExtentLemmas
pub mod AccessLemmas
pub mod AliveLemmas
pub mod CheckLemmas
pub mod LawProofs
pub mod ExampleProofs
