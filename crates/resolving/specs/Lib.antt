pub mod Meanings
