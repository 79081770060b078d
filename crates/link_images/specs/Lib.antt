pub mod Parts
pub mod ImageReads
pub mod ObjectFunctions
