pub mod Life
pub mod Memory
