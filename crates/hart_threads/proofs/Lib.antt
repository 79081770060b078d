mod Apart
mod Begun
mod Blocks
mod Bound
mod Hearing
mod Longer
mod Nobodys
mod Once
mod Running
mod Slices
mod Spending
mod Standing
mod Stepping
mod Told
pub mod Trailing
mod Turning
mod Waits
mod Whole
