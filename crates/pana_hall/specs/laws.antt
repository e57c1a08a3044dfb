-- Words of laws: what no contract of a call that does something needs.
pub mod Tables
pub mod Sets
pub mod Layers
pub mod Advice
pub mod Sightings
