pub mod View
pub mod Asking
pub mod Entering
pub mod Answering
