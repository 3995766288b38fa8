-- Laws of host buffers.
pub mod Laws
