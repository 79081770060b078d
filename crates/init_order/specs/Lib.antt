pub mod Components
pub mod Jobs
pub mod Least
pub mod Walked
pub mod Walking
