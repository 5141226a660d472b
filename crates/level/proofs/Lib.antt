pub mod Le
pub mod Spans
pub mod Total
pub mod Levels
pub mod Whole
pub mod Sign
