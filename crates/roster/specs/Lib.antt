pub mod Members
pub mod Relays
