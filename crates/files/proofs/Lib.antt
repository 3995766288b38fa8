-- Laws of blocks and of refusals.
pub mod Blocks
pub mod Refusals
