mod Halves
pub mod ImageReads
pub mod ObjectFunctions
