pub mod Sets
pub mod GeneratedSources
pub mod GeneratedLines
pub mod GeneratedDenotes
