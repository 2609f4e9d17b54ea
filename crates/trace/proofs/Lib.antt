pub mod Most
pub mod Together
