pub mod Dues
pub mod Machines
pub mod Meeting
pub mod Moving
pub mod Parts
pub mod Staying
