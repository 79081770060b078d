-- Lemmas that proofs of the crates above cite, too. They define nothing that a contract means.
pub mod Counts
pub mod Ends
pub mod Fixes
pub mod Records
pub mod Tables
