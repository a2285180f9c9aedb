pub mod Verdicts
pub mod Lines
pub mod Examples
pub mod Facts
