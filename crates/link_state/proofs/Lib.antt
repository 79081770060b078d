pub mod Closed
pub mod Granted
pub mod Looked
pub mod Opened
pub mod Pending
pub mod Stored
