pub mod Openings
pub mod Gapping
