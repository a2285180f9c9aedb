pub mod Declines
pub mod Lines
pub mod Figures
pub mod Said
