pub mod Answered
pub mod Changes
pub mod Following
pub mod Turn
