pub mod Graph
pub mod Journal
pub mod Json
pub mod Members
pub mod Names
pub mod Picture
pub mod View
pub mod Words
