pub mod Taken
pub mod Gaps
