pub mod TimeLemmas
pub mod SharedLemmas
pub mod NodeLemmas
pub mod SourceLemmas
pub mod TargetLemmas
pub mod ExampleProofs
