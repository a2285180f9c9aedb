pub mod Procedures
pub mod Twice
