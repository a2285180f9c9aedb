pub mod Restoring
pub mod Accepting
pub mod Reading
