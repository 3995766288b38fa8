-- Laws of the rings.
pub mod Laws
