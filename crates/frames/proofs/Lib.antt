pub mod Laws
pub mod Stored
pub mod Entries
pub mod ByKind
