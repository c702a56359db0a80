pub mod Rows
pub mod Columns
pub mod Sides
