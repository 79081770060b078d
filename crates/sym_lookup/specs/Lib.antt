pub mod Looking
pub mod References
pub mod SymFind
