pub mod Laws
pub mod OpeningFollows
