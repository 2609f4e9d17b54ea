pub mod Table
pub mod Least
pub mod Cells
pub mod Waiting
pub mod Filled
pub mod Text
