pub mod Kept
pub mod Leaving
