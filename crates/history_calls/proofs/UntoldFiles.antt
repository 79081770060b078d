pub mod Allowing
pub mod Serving
