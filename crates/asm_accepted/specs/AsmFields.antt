pub mod Fitting
pub mod Strings
