pub mod Brought
pub mod StartupAreas
