pub mod Former
pub mod Undoing
