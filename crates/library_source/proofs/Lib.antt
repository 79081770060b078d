mod Fronts
mod Reading
