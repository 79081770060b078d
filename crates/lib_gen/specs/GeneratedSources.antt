pub mod Shape
pub mod Sources
