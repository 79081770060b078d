pub mod StepOnce
pub mod WorldSlots
pub mod WorldWhole
pub mod RunMoments
pub mod TurnOnce
pub mod RunOnce
pub mod RunJournals
pub mod HartWays
