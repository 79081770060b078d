pub mod Worked
pub mod Clauses
