pub mod Lemmas
pub mod Seeing
