mod FailedPaths
mod OpeningRows
