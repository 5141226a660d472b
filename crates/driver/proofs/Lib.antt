pub mod Lines
pub mod Asked
