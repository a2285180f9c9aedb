pub mod Charges
pub mod Strings
