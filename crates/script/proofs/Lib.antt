pub mod Cuts
pub mod Reading
pub mod Listing
pub mod Lines
