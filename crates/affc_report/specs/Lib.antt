pub mod Forms
pub mod Sums
pub mod Trees
pub mod Loose
pub mod Folds
pub mod Examples
