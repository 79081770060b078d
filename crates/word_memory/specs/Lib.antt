pub mod Roles
pub mod WordSeats
