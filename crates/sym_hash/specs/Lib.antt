pub mod Breaks
pub mod Follow
pub mod Gnu
pub mod Hash
pub mod Hashed
pub mod Reached
pub mod Sysv
pub mod Verdict
