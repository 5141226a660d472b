pub mod Admission
pub mod Code
