pub mod Modes
pub mod Referring
pub mod Components
pub mod Initials
pub mod Sharing
pub mod Firsts
pub mod Storage
pub mod Bodies
