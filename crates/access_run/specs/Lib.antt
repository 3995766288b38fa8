-- The access program: what it prints for its input, and how it gets there block by block.
pub mod Answers
pub mod Session
