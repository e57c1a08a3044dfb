pub mod Match
pub mod Pattern
pub mod Spelling
pub mod Reading
pub mod inner
pub mod laws
