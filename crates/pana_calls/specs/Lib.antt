pub mod Cause
pub mod Holdings
pub mod Parts
pub mod Session
pub mod Standing
