pub mod Fields
pub mod Rows
pub mod Signs
pub mod Codes
pub mod Inverse
pub mod Options
pub mod Numbers
