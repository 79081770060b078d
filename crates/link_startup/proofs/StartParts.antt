pub mod Found
pub mod Further
pub mod Opened
pub mod Registers
pub mod Seeing
