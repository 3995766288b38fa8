-- A file handed on block by block, and what a program answers in place of what it was asked for.
pub mod Blocks
pub mod Refusals
