pub mod Assigning
pub mod Bodies
