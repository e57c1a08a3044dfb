pub mod SessionRun
pub mod OneRun
pub mod KeptRun
pub mod Overwrite
