pub mod ExampleProofs
pub mod SumLemmas
