pub mod Coming
pub mod Opening
pub mod LinkOpening
