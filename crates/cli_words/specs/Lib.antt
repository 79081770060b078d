pub mod Lemmas
pub mod Options
pub mod Reads
pub mod Values
pub mod Worked
