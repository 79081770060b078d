pub mod Blocks
pub mod Closing
pub mod Functions
pub mod Grants
pub mod Looking
pub mod Rows
pub mod Slots
