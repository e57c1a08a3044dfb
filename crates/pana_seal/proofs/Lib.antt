pub mod Intact
pub mod Same
pub mod Sealed
