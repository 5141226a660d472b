pub mod Ending
pub mod Reception
pub mod Code
