pub mod Sizes
pub mod Cells
pub mod Keeping
pub mod Messages
pub mod Stores
pub mod Box
