pub mod Promise
pub mod Waits
