pub mod Same
pub mod Taking
