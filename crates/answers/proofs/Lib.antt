pub mod Figures
pub mod Fronts
