-- Laws of masks.
pub mod Laws
