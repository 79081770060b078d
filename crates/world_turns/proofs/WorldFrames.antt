pub mod Finals
pub mod Runs
pub mod Settled
pub mod Starting
pub mod Turns
