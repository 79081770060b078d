pub mod Asked
pub mod Expected
pub mod Startup
