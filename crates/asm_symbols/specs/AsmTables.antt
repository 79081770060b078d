pub mod Needed
pub mod Order
pub mod Spots
