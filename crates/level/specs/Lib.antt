pub mod Consts
pub mod Levels
pub mod Order
pub mod Spans
