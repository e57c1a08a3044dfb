pub mod Joins
pub mod Levels
pub mod Norms
pub mod Orders
pub mod Points
pub mod Sound
pub mod Shares
