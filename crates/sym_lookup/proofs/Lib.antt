pub mod Globals
pub mod Searches
pub mod Skips
pub mod SymFind
