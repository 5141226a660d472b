pub mod Hex
pub mod Turns
