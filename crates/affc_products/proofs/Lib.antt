pub mod Fits
pub mod Eaches
pub mod ChoiceLemmas
pub mod ProvedLemmas
pub mod RowsOf
pub mod Picks
pub mod ProductLemmas
