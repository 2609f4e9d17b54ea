pub mod Laws
pub mod Fits
pub mod Whole
pub mod Went
