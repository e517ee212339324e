pub mod SizeLemmas
pub mod DistanceLemmas
pub mod ListedLemmas
pub mod LeafLemmas
pub mod TightLemmas
pub mod PosedLemmas
pub mod PassLemmas
pub mod TurnedLemmas
