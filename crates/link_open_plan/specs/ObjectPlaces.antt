pub mod Placing
pub mod Spots
