pub mod Accepted
pub mod Names
pub mod PackedPlaces
pub mod PackedTable
pub mod Relocs
pub mod Symbols
