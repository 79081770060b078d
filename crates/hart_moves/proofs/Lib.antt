pub mod Answering
pub mod OneHart
pub mod Worked
pub mod WorkedCalls
pub mod WorkedWaits
