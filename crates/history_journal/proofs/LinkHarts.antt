pub mod Owed
pub mod Removed
