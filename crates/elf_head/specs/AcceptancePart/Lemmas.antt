-- Lemmas on this crate's definitions that proofs of the crates above cite, too. They define nothing that a contract means.
pub mod Answers
pub mod Finds
pub mod Firsts
pub mod Judged
pub mod Leasts
pub mod Read
pub mod Reading
pub mod Tables
pub mod Tests
