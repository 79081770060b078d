pub mod Chosen
pub mod Needed
pub mod Opened
pub mod Settled
pub mod Stored
