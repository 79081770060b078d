pub mod Harts
pub mod Rows
pub mod Grants
