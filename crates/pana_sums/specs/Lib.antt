pub mod inner
pub mod File
pub mod Table
pub mod Times
