pub mod Line
pub mod Client
