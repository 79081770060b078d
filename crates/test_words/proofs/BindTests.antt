pub mod Places
pub mod Posting
pub mod Unmapping
