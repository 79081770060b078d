-- Lemmas on this crate's definitions that proofs of the crates above cite, too. They define nothing that a contract means.
pub mod Distinct
pub mod Exchanged
pub mod Images
pub mod Settled
pub mod Slots
pub mod Stayed
pub mod Stored
