pub mod Cells
pub mod Questions
pub mod Working
