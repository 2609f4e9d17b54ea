pub mod Decimals
pub mod Choices
pub mod Faults
pub mod Asks
pub mod Caught
pub mod Words
pub mod Given
