pub mod Passing
pub mod ByDue
pub mod Rows
pub mod Running
pub mod Settled
pub mod Stacks
pub mod FinalTurns
