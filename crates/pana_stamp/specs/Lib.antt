pub mod Fill
pub mod Cost
pub mod Grow
pub mod Raised
pub mod inner
