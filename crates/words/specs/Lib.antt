pub mod Sides
pub mod Wide
