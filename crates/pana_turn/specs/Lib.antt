pub mod History
pub mod Passes
pub mod Closing
pub mod Rule
pub mod inner
