pub mod Atlas
pub mod Code
pub mod Encoded
pub mod Here
pub mod Single
