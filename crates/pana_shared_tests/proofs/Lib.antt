pub mod Remembered
pub mod Lived
