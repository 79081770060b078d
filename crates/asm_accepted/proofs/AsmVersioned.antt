pub mod Distinct
pub mod Files
pub mod Records
