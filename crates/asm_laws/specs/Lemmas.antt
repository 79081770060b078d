-- Lemmas on this crate's definitions that proofs of the crates above cite, too. They define nothing that a contract means.
pub mod Counted
pub mod Each
pub mod Fewer
pub mod Filled
pub mod Given
pub mod Lists
pub mod Passed
