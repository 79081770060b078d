pub mod Queues
pub mod Turns
pub mod Views
