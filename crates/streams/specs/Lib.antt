pub mod Sources
pub mod Recorders
pub mod History
pub mod Kinds
