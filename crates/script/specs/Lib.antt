pub mod Words
pub mod Numerals
pub mod Tokens
pub mod Verbs
pub mod Commands
