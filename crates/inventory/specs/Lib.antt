pub mod Parts
pub mod Naming
