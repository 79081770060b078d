pub mod Accepted
pub mod Chains
pub mod Defined
pub mod Needed
pub mod Sources
pub mod Versym
