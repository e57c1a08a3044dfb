pub mod Spelled
pub mod Called
pub mod Judged
pub mod Numbered
