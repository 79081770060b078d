pub mod Leaving
pub mod Settling
