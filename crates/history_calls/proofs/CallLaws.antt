pub mod Asking
pub mod Closed
pub mod Examples
pub mod Executable
pub mod Future
pub mod Nowhere
pub mod Order
pub mod Whole
