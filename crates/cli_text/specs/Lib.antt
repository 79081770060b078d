pub mod Binding
pub mod DumpLines
pub mod Lines
pub mod Named
pub mod Refusal
