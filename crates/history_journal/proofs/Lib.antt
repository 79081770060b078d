pub mod Keeps
pub mod LinkHarts
pub mod AcceptedImage
