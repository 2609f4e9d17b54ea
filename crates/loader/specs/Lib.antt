pub mod Load
pub mod Begin
