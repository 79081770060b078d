pub mod Harts
pub mod Loaded
