pub mod Entries
pub mod Restored
pub mod Logged
pub mod Commands
