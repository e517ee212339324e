pub mod HalfLemmas
pub mod TreeLemmas
pub mod FindLemmas
pub mod SlightLemmas
pub mod PartLemmas
pub mod GuessLemmas
pub mod SplitLemmas
pub mod PointLemmas
