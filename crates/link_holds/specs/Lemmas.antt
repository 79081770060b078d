-- Lemmas on this crate's definitions that proofs of the crates above cite, too. They define nothing that a contract means.
pub mod Advance
pub mod Closed
pub mod Granted
pub mod Held
pub mod Opened
pub mod Parts
pub mod Stored
pub mod Unmapped
