pub mod Dues
pub mod Turning
pub mod Worlds
