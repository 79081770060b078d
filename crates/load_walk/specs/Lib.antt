pub mod Files
pub mod Lookup
pub mod Places
pub mod Plan
pub mod Records
pub mod Staging
pub mod Walking
