pub mod Least
pub mod Removed
