pub mod Marks
pub mod Walks
pub mod Blocks
pub mod Returns
