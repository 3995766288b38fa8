-- Laws of texts.
pub mod Laws
