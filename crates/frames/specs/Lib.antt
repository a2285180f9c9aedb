pub mod Frames
pub mod Rooms
