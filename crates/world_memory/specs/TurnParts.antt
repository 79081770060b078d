pub mod Freed
pub mod Leaving
pub mod Settling
