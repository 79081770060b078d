pub mod Arrays
pub mod Fixer
