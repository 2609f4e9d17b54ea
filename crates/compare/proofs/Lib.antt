pub mod Lists
pub mod Found
pub mod Pieces
pub mod Answers
pub mod Same
