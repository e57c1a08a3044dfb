-- Words of the laws of notices.
pub mod Notices
