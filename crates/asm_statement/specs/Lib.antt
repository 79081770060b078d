pub mod Alignments
pub mod AsmWords
