pub mod Choices
pub mod Finding
