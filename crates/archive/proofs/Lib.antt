pub mod Puts
pub mod Needed
pub mod Pieces
pub mod Modules
pub mod Answers
