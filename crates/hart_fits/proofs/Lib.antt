mod Finals
mod Fits
mod Others
mod Over
mod Own
mod Starts
