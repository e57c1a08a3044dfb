pub mod Hands
pub mod Rule
