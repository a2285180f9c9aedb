pub mod Beginnings
pub mod Chains
pub mod Layers
pub mod Spelled
pub mod Standing
