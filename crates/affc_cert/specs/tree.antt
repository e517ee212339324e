pub mod Values
pub mod Trees
pub mod Taken
pub mod Stacks
pub mod Limits
pub mod Within
