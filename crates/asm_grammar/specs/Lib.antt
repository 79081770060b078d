pub mod Directives
pub mod Grammar
pub mod Lines
pub mod Operands
pub mod Reading
pub mod Texts
pub mod Worked
