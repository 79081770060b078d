pub mod Choosing
pub mod Opening
pub mod Settling
pub mod Storing
