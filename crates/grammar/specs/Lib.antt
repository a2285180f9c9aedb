pub mod Symbols
pub mod Trees
pub mod Sentences
pub mod Machine
pub mod Examples
