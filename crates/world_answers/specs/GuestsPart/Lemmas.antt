-- Lemmas that proofs of the crates above cite, too. They define nothing that a contract means.
pub mod Counting
pub mod Places
pub mod Starts
pub mod Turns
