mod Ends
mod Fuel
mod Growing
mod Marks
mod Worked
