pub mod Seated
pub mod WordSeats
