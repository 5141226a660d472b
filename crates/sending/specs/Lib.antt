pub mod Runs
pub mod Tiles
pub mod Room
pub mod Sending
pub mod Follows
