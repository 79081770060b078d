pub mod Libraries
pub mod Ordering
pub mod Picking
pub mod Placed
pub mod Recorded
