pub mod FailedPaths
pub mod OpeningRows
