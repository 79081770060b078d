mod Asking
mod Fetching
pub mod Gone
mod Handed
mod Keeping
mod Over
mod Posted
mod PostedKept
pub mod Posting
pub mod Remade
mod RemadeKept
mod Seen
mod Settled
pub mod Settling
mod Staying
pub mod Values
