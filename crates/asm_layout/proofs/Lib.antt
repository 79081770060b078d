pub mod Among
pub mod Distinct
pub mod Firsts
pub mod Forms
pub mod Offsets
pub mod AsmDenotes
