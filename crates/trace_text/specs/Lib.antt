pub mod Ends
pub mod Lines
pub mod Lists
pub mod Said
pub mod RunTexts
