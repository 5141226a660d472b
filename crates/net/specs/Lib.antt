pub mod State
pub mod Net
pub mod Code
