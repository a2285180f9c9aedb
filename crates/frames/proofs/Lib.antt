pub mod Filled
pub mod Listing
pub mod Counts
pub mod Entering
pub mod Declaring
