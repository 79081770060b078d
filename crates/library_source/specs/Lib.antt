pub mod Count
pub mod Files
pub mod Folder
pub mod Memory
pub mod Writing
