pub mod Buckets
pub mod Counted
pub mod Lines
pub mod Mentioned
pub mod Numbers
pub mod Sorted
