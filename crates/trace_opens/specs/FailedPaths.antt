pub mod Emptied
pub mod Row
