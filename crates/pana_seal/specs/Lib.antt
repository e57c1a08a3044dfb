pub mod Seal
pub mod Shown
pub mod laws
