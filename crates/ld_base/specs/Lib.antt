pub mod FaultText
pub mod Field
pub mod Marks
pub mod Pick
pub mod Symbol
pub mod Taken
pub mod Text
pub mod Version
