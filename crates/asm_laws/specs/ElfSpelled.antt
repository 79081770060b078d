pub mod Lemmas
pub mod Said
pub mod Whole
