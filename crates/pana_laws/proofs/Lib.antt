pub mod SessionRun
pub mod Passes
pub mod Sessions
pub mod OneRun
pub mod KeptRun
pub mod Overwritten
