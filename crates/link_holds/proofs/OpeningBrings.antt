pub mod Facts
pub mod StartupAreas
