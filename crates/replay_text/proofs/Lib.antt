-- Laws of printed text.
pub mod Laws
