pub mod Groups
pub mod Lives
pub mod OneHistory
