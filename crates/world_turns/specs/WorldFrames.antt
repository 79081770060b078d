pub mod Belong
pub mod Finals
pub mod Laws
pub mod Lemmas
