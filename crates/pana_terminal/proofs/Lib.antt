pub mod Printable
pub mod Worked
