pub mod Object
pub mod Segments
pub mod Spells
pub mod Verdict
