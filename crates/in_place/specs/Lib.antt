pub mod Placed
pub mod Whole
