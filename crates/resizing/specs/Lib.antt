pub mod Resizing
