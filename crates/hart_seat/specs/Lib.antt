pub mod Copied
pub mod Inside
pub mod Phases
pub mod Table
pub mod HartParts
