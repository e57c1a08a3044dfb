pub mod Text
pub mod Grammar
pub mod Fault
pub mod laws
pub mod inner
