pub mod Unset
