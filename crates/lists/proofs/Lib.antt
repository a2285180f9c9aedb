pub mod Alone
pub mod Listed
pub mod Loops
pub mod Made
pub mod Standing
