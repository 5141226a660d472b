pub mod Rows
pub mod Bursts
pub mod Direct
pub mod Reroute
