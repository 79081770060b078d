pub mod Strings
pub mod ElfTabled
pub mod ElfHashed
pub mod ElfVersioned
pub mod ElfAccepted
pub mod AsmFields
pub mod AsmRecord
