pub mod Arithmetic
pub mod Buses
pub mod Doublewords
pub mod Instructions
pub mod Items
pub mod Laws
pub mod Registers
pub mod Trail
