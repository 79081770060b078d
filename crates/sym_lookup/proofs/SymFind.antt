pub mod Found
pub mod GnuWalks
pub mod Kept
pub mod Offers
pub mod SysvWalks
