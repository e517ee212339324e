pub mod RefoldLemmas
pub mod StandsLemmas
pub mod PlacedLaws
pub mod Remainder
pub mod ReplaceLemmas
pub mod FoldedLaws
pub mod ExampleProofs
