pub mod WordTests
pub mod BindTests
