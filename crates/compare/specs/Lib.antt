pub mod Facts
pub mod Compared
pub mod Pairs
