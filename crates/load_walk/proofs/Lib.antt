mod Lookups
mod Missing
mod Planning
mod Stages
mod Walkers
