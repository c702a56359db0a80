pub mod Back
pub mod Noted
