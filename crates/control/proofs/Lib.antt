pub mod Laws
pub mod Chain
pub mod Find
pub mod Words
pub mod Process
pub mod Decoded
pub mod Weights
