pub mod Store
pub mod inner
pub mod Fill
