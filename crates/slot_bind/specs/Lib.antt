pub mod Rows
pub mod Grants
