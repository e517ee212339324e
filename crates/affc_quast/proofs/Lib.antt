pub mod LeafLemmas
pub mod RangeLemmas
pub mod NearLemmas
pub mod ExampleProofs
pub mod PathLemmas
