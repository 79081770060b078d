pub mod Headers
pub mod Object
pub mod Symbols
