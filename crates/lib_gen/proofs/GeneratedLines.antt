pub mod Bytes
pub mod Pieces
pub mod Said
pub mod Sources
