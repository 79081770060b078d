-- Lemmas on this crate's definitions that proofs of the crates above cite, too. They define nothing that a contract means.
pub mod Events
pub mod Exchanging
pub mod Offers
pub mod Places
pub mod Resolution
pub mod Running
pub mod Settling
pub mod Starting
pub mod Turning
pub mod Words
