pub mod Rings
pub mod Lowest
pub mod Cases
