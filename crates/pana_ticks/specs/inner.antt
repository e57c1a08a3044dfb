pub mod Steps
pub mod Sight
