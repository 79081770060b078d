pub mod Relocated
pub mod AreaImages
pub mod NewBlocks
pub mod ObjectBindings
pub mod OpeningSteps
pub mod Lemmas
