pub mod Onward
pub mod Whole
