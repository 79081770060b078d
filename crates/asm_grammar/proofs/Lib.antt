pub mod Lines
pub mod Sources
pub mod Texts
pub mod Verdicts
