pub mod Optional
pub mod Bricks
pub mod Moditems
