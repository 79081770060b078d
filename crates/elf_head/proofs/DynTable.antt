pub mod Strings
pub mod Symbols
