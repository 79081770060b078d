pub mod Bits
pub mod Taken
mod Plain
