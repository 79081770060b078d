pub mod Forms
pub mod Taken
