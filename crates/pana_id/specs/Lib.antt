pub mod Id
pub mod IdFault
pub mod Node
pub mod Stored
