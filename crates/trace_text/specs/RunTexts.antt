pub mod Counting
pub mod Ends
pub mod Printed
pub mod Worked
