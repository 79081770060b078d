pub mod Between
pub mod Finals
pub mod Lemmas
pub mod Naming
pub mod Serving
