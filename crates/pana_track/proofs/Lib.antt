pub mod Apart
pub mod Searched
pub mod Listed
pub mod ByRounds
pub mod Either
pub mod Reported
pub mod Tracked
pub mod Paged
