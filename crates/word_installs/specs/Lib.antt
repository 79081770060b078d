pub mod Installed
pub mod Remaking
pub mod Starting
pub mod Unmapped
