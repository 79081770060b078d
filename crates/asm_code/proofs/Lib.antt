pub mod Between
pub mod Names
pub mod Wide
pub mod Wording
