pub mod Filled
pub mod Written
pub mod Given
pub mod New
pub mod Installed
