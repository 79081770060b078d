mod Closed
pub mod ClosingGraph
pub mod ClosingLaws
pub mod ClosingSets
pub mod UnmappedObjects
pub mod ClosingPlans
pub mod UnmapSteps
