pub mod SeenChoices
pub mod SlotChoosing
