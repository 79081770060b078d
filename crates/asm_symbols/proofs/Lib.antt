pub mod Behind
pub mod Entered
pub mod Given
pub mod Owns
pub mod AsmTables
