pub mod Heads
pub mod Joined
pub mod LookUps
pub mod Placed
pub mod Tags
pub mod Told
