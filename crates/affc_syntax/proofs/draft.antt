pub mod Outs
pub mod Nodes
