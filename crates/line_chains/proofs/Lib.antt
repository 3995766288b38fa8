-- What the judgements of a chain come to.
pub mod Laws
