pub mod Decide
pub mod Fit
pub mod Names
pub mod Expressions
pub mod Statements
pub mod Modules
pub mod Limits
pub mod Places
