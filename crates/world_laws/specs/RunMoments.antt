pub mod Laws
pub mod OfJournal
pub mod OfTurns
pub mod OfWords
pub mod True
