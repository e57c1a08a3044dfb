pub mod Event
pub mod Code
pub mod Shape
pub mod Join
pub mod Order
pub mod Relation
pub mod laws
pub mod inner
