pub mod Last
pub mod Passed
