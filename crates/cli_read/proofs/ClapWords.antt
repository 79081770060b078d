pub mod Fits
pub mod Found
pub mod Front
pub mod Rows
pub mod Taking
pub mod Walks
