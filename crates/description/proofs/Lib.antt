-- Laws of the judgement.
pub mod Laws
