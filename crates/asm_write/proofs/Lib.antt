pub mod Slots
pub mod Zeros
pub mod HashBuild
