pub mod Lines
pub mod Commands
pub mod Kept
pub mod Asked
