pub mod Bytes
pub mod Spellings
pub mod Items
pub mod Cut
pub mod See
pub mod Twin
pub mod Laws
