pub mod Again
pub mod Keys
pub mod Needed
pub mod Noted
pub mod Preempt
pub mod Words
