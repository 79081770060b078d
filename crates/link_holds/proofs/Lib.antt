pub mod OpeningBrings
