pub mod Turned
pub mod Swaps
pub mod Triangles
pub mod Selections
