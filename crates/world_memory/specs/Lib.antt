pub mod Front
pub mod Inside
pub mod Pages
pub mod TurnAnswers
pub mod TurnParts
