pub mod Reason
pub mod Shown
