pub mod Hashes
pub mod Said
