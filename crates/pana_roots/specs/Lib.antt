pub mod Root
pub mod Disks
