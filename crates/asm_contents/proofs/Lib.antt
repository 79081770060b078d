pub mod Joined
pub mod Records
pub mod AsmFixes
