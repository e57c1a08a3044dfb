-- Words of laws: what no contract of a call that does something needs.
pub mod Widths
pub mod Fits
