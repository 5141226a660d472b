pub mod Cents
pub mod Sums
pub mod Lines
pub mod Balance
pub mod Cases
