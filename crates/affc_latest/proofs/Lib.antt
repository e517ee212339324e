pub mod Lists
pub mod OppositeLemmas
pub mod LatestLemmas
pub mod StoreLemmas
pub mod LastLemmas
pub mod LaterLemmas
pub mod AmongLemmas
pub mod BesideLemmas
