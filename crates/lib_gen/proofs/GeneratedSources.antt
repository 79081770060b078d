pub mod Joined
pub mod Ranges
