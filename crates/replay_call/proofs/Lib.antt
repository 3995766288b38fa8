-- Laws of what a call prints and leaves.
pub mod Laws
pub mod Asked
