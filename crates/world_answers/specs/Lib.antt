pub mod Answers
pub mod Faults
pub mod Openings
pub mod Served
pub mod ReturnsPart
pub mod GuestsPart
