pub mod Chains
pub mod Openings
