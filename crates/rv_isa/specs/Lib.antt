pub mod Encoding
pub mod Laws
pub mod Opcodes
pub mod Reading
pub mod Word
