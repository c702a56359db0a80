pub mod Sheet
pub mod Journal
pub mod History
pub mod Pieces
pub mod Reached
pub mod Sentences
pub mod Provenance
