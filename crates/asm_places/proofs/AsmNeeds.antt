pub mod Built
pub mod Numbers
pub mod Parts
