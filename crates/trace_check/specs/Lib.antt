pub mod Harts
pub mod Judged
pub mod Laws
pub mod Lines
pub mod Parts
pub mod Rows
pub mod Split
