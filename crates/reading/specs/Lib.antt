pub mod Same
pub mod Values
