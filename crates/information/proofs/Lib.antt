-- Laws of items.
pub mod Laws
