pub mod Best
pub mod Found
pub mod Offers
pub mod Reference
pub mod Walks
