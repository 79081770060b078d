mod Changes
mod FileWords
mod Found
mod Marks
mod Ordered
mod Steps
