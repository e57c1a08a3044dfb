pub mod Line
pub mod Watch
pub mod inner
