pub mod Exited
pub mod First
pub mod Left
pub mod Passing
pub mod Planning
pub mod Settling
