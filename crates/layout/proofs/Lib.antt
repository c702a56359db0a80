pub mod Cloning
pub mod Writing
pub mod Marks
