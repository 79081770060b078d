pub mod Accepting
pub mod Fields
pub mod Heads
pub mod LazyWords
pub mod Lists
