mod Admitting
mod Arrayed
pub mod Each
mod Items
