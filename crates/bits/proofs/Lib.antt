pub mod Bits
pub mod Laws
pub mod Lists
pub mod Loops
pub mod Stops
