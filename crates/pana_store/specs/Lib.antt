pub mod Acknowledged
pub mod Ending
pub mod Entries
pub mod Opening
pub mod Store
pub mod inner
