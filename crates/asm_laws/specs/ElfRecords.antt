pub mod Lemmas
pub mod Numbers
pub mod Reads
pub mod Standing
