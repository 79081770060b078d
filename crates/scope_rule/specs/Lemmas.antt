pub mod Orders
pub mod Placed
