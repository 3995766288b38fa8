-- Laws of numbers, HEX and words.
pub mod Laws
