pub mod Value
pub mod Rounding
pub mod Rounded
pub mod Between
