pub mod Choosing
pub mod Lemmas
