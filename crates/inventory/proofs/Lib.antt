pub mod Pairs
pub mod Items
pub mod Whole
