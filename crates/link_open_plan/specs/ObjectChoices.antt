pub mod Choices
pub mod Sight
