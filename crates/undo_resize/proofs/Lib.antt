pub mod Corners
pub mod Cells
pub mod Taking
