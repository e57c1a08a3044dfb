pub mod Operations
pub mod Device
pub mod Log
pub mod Lines
pub mod Memory
