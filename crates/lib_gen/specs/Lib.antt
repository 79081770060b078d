pub mod Library
pub mod Set
pub mod Summary
pub mod Worked
pub mod GeneratedSources
pub mod GeneratedLines
pub mod GeneratedDenotes
