pub mod Empty
pub mod Refused
