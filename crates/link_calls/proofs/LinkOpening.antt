pub mod Few
pub mod Judged
pub mod Objects
pub mod Whole
