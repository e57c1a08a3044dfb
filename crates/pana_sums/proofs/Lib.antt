pub mod Pushed
pub mod Seals
pub mod Rows
pub mod Same
pub mod Tables
pub mod Inserted
pub mod Worked
