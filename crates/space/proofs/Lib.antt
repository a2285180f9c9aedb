pub mod Strung
pub mod Leading
pub mod Dividing
pub mod Declaring
