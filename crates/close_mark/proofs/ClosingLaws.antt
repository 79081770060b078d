pub mod Both
pub mod Opened
pub mod Same
