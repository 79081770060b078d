pub mod Asked
pub mod Planned
