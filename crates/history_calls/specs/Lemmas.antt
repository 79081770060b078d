-- Lemmas on this crate's definitions that proofs of the crates above cite, too. They define nothing that a contract means.
pub mod Ends
pub mod Examples
pub mod Finishing
pub mod Given
pub mod InOrder
pub mod OneOrder
pub mod Opened
pub mod Own
pub mod Readings
pub mod Rooted
pub mod Serving
pub mod Stored
pub mod Told
pub mod Unique
