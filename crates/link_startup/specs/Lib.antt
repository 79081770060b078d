pub mod Bringing
pub mod Stacks
pub mod Startup
pub mod Worked
pub mod StartParts
