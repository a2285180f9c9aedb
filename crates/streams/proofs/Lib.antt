pub mod Laws
pub mod Layers
