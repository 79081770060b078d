pub mod Answered
pub mod Begun
pub mod First
pub mod Judged
pub mod Later
pub mod Lent
