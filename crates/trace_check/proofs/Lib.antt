mod Counted
mod Ended
mod Opened
mod Splitting
mod Taken
mod Unsaid
mod Verdicts
