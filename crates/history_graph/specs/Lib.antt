pub mod Initialised
pub mod Lemmas
pub mod Reached
pub mod Sources
pub mod SerialSets
