pub mod Reserved
pub mod Scans
pub mod Marks
pub mod Numbers
