pub mod Before
pub mod Broken
pub mod Entries
pub mod First
pub mod Gives
pub mod Least
pub mod Lemmas
pub mod Table
