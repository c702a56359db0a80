pub mod Asking
pub mod Entries
pub mod Answering
