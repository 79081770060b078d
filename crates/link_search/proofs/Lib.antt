pub mod Searched
pub mod Standing
pub mod Refusing
