pub mod Begins
pub mod Laws
pub mod Planned
pub mod Table
