pub mod Called
pub mod Entered
pub mod Kept
pub mod Standing
pub mod Taking
pub mod Whole
