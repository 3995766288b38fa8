-- Taking in the rules' terms.
pub mod Laws
