pub mod Linked
pub mod Said
