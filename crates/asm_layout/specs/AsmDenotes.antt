pub mod Denotes
