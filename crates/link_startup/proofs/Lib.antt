pub mod Brought
pub mod Fails
pub mod First
pub mod Opened
pub mod Stacks
mod Worked
pub mod StartParts
