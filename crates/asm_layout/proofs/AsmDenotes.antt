pub mod Faulty
pub mod Sources
