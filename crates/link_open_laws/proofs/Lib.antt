pub mod Seen
pub mod Placed
pub mod Installs
pub mod Uncopied
pub mod Outside
pub mod Copied
pub mod Bytes
pub mod OpeningFollows
