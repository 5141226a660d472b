-- Laws of this crate's proofs.
pub mod Commands
pub mod Floats
pub mod Numbers
pub mod Settings
