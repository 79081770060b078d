pub mod Running
pub mod Setting
pub mod Slots
pub mod Threaded
