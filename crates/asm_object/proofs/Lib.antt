pub mod Held
pub mod Lasting
pub mod AsmBytes
pub mod AsmData
