pub mod Verdicts
pub mod Shown
pub mod Items
