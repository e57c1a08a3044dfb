pub mod Named
pub mod Commanded
