pub mod Enters
pub mod FirstCall
pub mod Holds
pub mod Lemmas
pub mod Memory
pub mod Remade
