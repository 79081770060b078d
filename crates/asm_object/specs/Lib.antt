pub mod Code
pub mod AsmBytes
pub mod AsmData
