pub mod Parsing
pub mod Declining
