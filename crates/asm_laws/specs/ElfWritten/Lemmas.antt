-- Lemmas on the definitions that this crate ties, which proofs of the crates above cite, too. They define nothing that a contract means.
pub mod Lengths
