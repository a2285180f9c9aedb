mod Seeking
pub mod Parts
pub mod Following
