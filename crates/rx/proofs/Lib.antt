pub mod Endings
pub mod Counts
pub mod Turns
pub mod Each
pub mod Whole
