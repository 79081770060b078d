pub mod Given
pub mod Moduled
pub mod Placed
pub mod Same
