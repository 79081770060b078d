pub mod Before
pub mod Buckets
