pub mod Columns
pub mod Fitted
pub mod Table
pub mod Status
pub mod laws
pub mod inner
