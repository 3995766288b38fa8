-- Laws of the access program, and what it prints for the whole input.
pub mod Laws
pub mod Whole
