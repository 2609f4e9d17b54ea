pub mod Table
pub mod Frames
pub mod Transfer
pub mod Rows
pub mod Lines
