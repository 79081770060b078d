-- Lemmas on this crate's definitions that proofs of the crates above cite, too. They define nothing that a contract means.
pub mod Ended
pub mod Next
