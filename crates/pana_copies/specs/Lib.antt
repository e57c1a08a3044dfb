pub mod inner
pub mod Names
pub mod Places
pub mod Spots
pub mod Sums
