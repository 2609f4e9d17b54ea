pub mod Answers
pub mod Bases
pub mod Begin
pub mod Early
pub mod Fill
pub mod Walked
