pub mod Stepping
pub mod Cuts
