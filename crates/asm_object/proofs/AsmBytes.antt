pub mod Aligned
pub mod Lines
pub mod Linkage
