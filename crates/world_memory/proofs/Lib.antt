pub mod Putting
pub mod Ranges
pub mod Remade
pub mod Spreading
pub mod TurnAnswers
pub mod TurnParts
