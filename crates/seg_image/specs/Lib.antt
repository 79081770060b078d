pub mod Accepted
pub mod Images
pub mod Pages
pub mod Plain
pub mod Roles
pub mod Words
