pub mod Loading
pub mod Unread
