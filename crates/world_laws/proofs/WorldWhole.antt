pub mod Lost
pub mod Runs
pub mod Turns
