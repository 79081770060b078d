pub mod Clean
pub mod Ends
pub mod Forms
pub mod Labels
pub mod Plain
pub mod Reach
pub mod Sizes
pub mod Sources
