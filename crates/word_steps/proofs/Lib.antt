pub mod Hands
pub mod Desks
pub mod Told
pub mod Firsts
