pub mod Declaring
pub mod Bodies
pub mod Referring
