-- Lemmas on this crate's definitions that proofs of the crates above cite, too. They define nothing that a contract means.
pub mod Fields
pub mod Head
pub mod Records
pub mod Standing
