pub mod Reading
pub mod Pieces
pub mod Control
pub mod Frames
pub mod Code
