pub mod Blank
pub mod Marks
pub mod Needs
pub mod AsmFixes
