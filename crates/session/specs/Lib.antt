pub mod Transcript
pub mod Meaning
