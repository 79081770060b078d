pub mod Ended
pub mod Grants
pub mod Lanes
pub mod Read
pub mod Whole
