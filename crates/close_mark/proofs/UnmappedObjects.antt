pub mod Parting
pub mod Written
