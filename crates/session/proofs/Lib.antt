pub mod Printing
pub mod Plain
pub mod Playing
