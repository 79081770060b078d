pub mod Aligned
pub mod Named
