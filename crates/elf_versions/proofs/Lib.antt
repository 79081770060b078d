pub mod Laws
pub mod Named
pub mod Reading
pub mod Verdicts
