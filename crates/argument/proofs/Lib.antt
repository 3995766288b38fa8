-- Laws of an argument's digits.
pub mod Laws
