pub mod Powers
pub mod AsmWords
