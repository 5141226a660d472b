-- The laws that the proofs of this crate, and of those above it, cite.
pub mod Laws
pub mod Fill
pub mod Read
pub mod Walk
pub mod Fine
pub mod Sample
