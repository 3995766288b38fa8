-- Laws of numbers in memory.
pub mod Laws
