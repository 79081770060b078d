pub mod OneEnd
pub mod Sayable
