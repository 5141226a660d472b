-- Laws of the rooms.
pub mod Laws
pub mod Every
