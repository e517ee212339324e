pub mod SpotLemmas
pub mod AnsweredLemmas
pub mod RangeLemmas
pub mod ProofLemmas
pub mod SettlingLemmas
