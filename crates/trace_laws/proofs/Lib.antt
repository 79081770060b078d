mod Alone
mod Ends
mod Feeds
mod Lines
mod Named
mod Passing
mod Threads
