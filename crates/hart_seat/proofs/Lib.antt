pub mod Copies
pub mod Running
pub mod Taken
pub mod HartParts
pub mod Instructions
