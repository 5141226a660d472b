pub mod Accepts
pub mod Marks
pub mod Rooms
pub mod Tables
pub mod Takes
pub mod Windows
