-- Laws of fractions.
pub mod Laws
