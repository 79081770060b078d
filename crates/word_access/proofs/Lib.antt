pub mod WordKeeping
