pub mod Laws
pub mod Saw
