pub mod Asked
pub mod Spelled
pub mod Stop
