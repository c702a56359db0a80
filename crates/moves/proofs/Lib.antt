pub mod Places
pub mod Slides
pub mod Rows
pub mod Saves
pub mod Sides
pub mod Flat
