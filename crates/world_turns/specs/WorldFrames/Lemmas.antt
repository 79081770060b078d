-- Lemmas on this crate's definitions that proofs of the crates above cite, too. They define nothing that a contract means.
pub mod Events
pub mod Finals
pub mod Leaving
pub mod Origins
pub mod Passing
pub mod Starting
