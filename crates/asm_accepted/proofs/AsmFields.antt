pub mod Relocs
pub mod Strings
pub mod Symbols
pub mod Told
