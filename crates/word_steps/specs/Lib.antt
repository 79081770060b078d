pub mod Views
pub mod Knowing
pub mod Showing
