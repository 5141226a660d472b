pub mod Rows
pub mod Places
pub mod Members
pub mod Theorems
