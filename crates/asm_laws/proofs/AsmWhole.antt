pub mod Aligned
pub mod Directives
pub mod Instructions
pub mod Said
