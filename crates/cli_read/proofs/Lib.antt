pub mod Folding
pub mod Parts
pub mod Reading
pub mod Taking
pub mod ScheduleRead
pub mod ClapWords
pub mod SaidWords
