pub mod Finals
pub mod Fits
pub mod Lemmas
pub mod Others
pub mod Over
pub mod Own
pub mod Owners
pub mod Waits
