pub mod Numbered
pub mod PendingClosingsPart
pub mod ReservedPagesPart
pub mod ObjectHolders
pub mod SlotWords
pub mod MappedObjects
