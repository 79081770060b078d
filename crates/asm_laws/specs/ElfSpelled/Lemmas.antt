-- Lemmas on this crate's definitions, and on those that it ties, that proofs of the crates above cite, too. They define nothing that a contract means.
pub mod Bytes
pub mod Reading
pub mod Rows
pub mod Starting
pub mod Strings
pub mod Telling
