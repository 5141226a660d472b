pub mod Arrays
pub mod Parts
pub mod Faithful
pub mod Refused
