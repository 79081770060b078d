pub mod Bits
pub mod HashWords
pub mod Name
pub mod Reloc
pub mod Symbol
pub mod Tag
pub mod TagNumbers
