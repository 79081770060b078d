pub mod Lists
pub mod Ordered
pub mod Placed
pub mod Queues
pub mod Records
pub mod Walks
pub mod Ways
