pub mod Rooted
pub mod Readings
