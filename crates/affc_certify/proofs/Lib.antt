pub mod DraftLemmas
pub mod LeftLemmas
pub mod ShownLemmas
pub mod SpareLemmas
