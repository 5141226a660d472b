-- Laws of the directed queue's bytes.
pub mod Laws
