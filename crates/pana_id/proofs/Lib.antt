pub mod Divides
pub mod Nodes
pub mod Numbered
pub mod Pairs
pub mod Parts
pub mod Points
pub mod Single
pub mod Sums
