pub mod Appends
pub mod Laws
pub mod Lemmas
