pub mod Places
pub mod AreaImages
pub mod NewBlocks
pub mod ObjectBindings
pub mod OpeningSteps
