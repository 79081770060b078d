pub mod Counting
pub mod Granted
pub mod Next
pub mod SchedulesPart
pub mod TurnWrites
pub mod WorldEnds
pub mod WorldFrames
pub mod RunningWorlds
