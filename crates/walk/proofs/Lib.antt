pub mod Laws
pub mod Opcodes
