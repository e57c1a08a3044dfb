pub mod Passes
pub mod Scan
pub mod Doors
pub mod Newlines
pub mod Folders
