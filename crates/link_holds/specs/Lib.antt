pub mod Events
pub mod Holding
pub mod Lemmas
pub mod Settling
pub mod OpeningBrings
