pub mod Shapes
pub mod Targets
pub mod Places
pub mod Sources
pub mod Calls
pub mod Blocks
pub mod Results
