pub mod Refusals
pub mod Lawful
pub mod Checks
pub mod Dense
pub mod Cells
pub mod Written
pub mod Strided
pub mod Picked
