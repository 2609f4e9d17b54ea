pub mod Mnemonics
pub mod Names
pub mod Text
pub mod Shape
pub mod First
pub mod Waiting
pub mod Cell
pub mod Causes
