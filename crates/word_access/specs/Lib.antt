pub mod Accesses
pub mod Holding
pub mod WordKeeping
