pub mod Corners
pub mod Cells
