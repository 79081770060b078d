pub mod Chosen
pub mod Laid
pub mod Placed
