pub mod Filled
pub mod Blanks
