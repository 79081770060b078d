pub mod Coming
pub mod Counts
pub mod Laws
pub mod Worked
