pub mod Blocks
pub mod Questions
pub mod Cells
pub mod Joining
