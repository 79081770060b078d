pub mod Magnitude
pub mod Numbered
