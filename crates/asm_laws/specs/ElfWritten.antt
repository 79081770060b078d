pub mod Fitting
pub mod Lemmas
pub mod Placed
pub mod Standing
