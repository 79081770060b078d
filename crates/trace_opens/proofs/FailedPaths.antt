pub mod Changed
pub mod Others
pub mod Stopped
pub mod Rows
pub mod Plans
