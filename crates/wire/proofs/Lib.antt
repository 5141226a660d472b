pub mod Packed
pub mod Table
pub mod Trip
pub mod Near
pub mod Field
