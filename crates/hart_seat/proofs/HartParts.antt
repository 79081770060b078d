pub mod Bytes
pub mod Functions
