pub mod Splits
pub mod Grown
