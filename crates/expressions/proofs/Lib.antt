pub mod Forms
pub mod Levels
pub mod Conditions
