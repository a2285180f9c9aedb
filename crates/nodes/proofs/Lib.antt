pub mod Results
pub mod Keep
pub mod Build
pub mod Repeat
