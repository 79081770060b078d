pub mod Bytes
pub mod Blocks
pub mod Words
pub mod Installed
