pub mod Facts
pub mod Indexes
pub mod Reaches
pub mod Visibilities
pub mod AsmTables
