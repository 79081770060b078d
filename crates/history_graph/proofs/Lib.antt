mod BySource
pub mod SerialSets
