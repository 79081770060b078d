pub mod Apart
pub mod File
pub mod Packed
pub mod Parts
pub mod ReadBack
pub mod Shifted
pub mod Sizes
