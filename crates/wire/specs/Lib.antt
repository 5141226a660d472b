pub mod Kinds
pub mod Call
pub mod Numbers
pub mod Fields
