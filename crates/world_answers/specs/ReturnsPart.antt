pub mod Answering
pub mod Completing
pub mod Noting
pub mod Settling
pub mod Steps
pub mod FinalTurns
