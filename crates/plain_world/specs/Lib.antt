pub mod Ends
pub mod Finals
pub mod Inside
pub mod Laws
pub mod Playing
pub mod Started
pub mod Stretches
pub mod Table
