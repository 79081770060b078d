pub mod Packs
pub mod Sizes
