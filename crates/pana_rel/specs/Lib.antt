pub mod inner
pub mod Board
pub mod Pairs
