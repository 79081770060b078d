pub mod Found
pub mod Judged
pub mod Matched
pub mod Verbs
pub mod ScheduleRead
pub mod ClapWords
pub mod SaidWords
