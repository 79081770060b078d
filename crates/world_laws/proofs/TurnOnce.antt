pub mod Calls
pub mod Did
pub mod Finals
pub mod Turns
