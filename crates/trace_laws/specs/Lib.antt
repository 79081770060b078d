pub mod Beginning
pub mod Laws
