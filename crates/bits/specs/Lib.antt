pub mod Loop
pub mod Mask
pub mod Stop
