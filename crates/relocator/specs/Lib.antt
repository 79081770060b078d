pub mod Bindings
pub mod Copies
pub mod Example
pub mod Relocated
pub mod Storage
