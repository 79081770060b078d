pub mod Before
pub mod Lemmas
pub mod Planned
pub mod Startup
pub mod ObjectChoices
pub mod ObjectPlaces
pub mod OpeningLoad
