pub mod Accepted
pub mod Finding
pub mod Law
pub mod Passing
pub mod Placing
pub mod Verdicts
pub mod DynTable
