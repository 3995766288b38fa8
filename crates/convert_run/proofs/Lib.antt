-- Laws of the blocks that the program converts one after the other, and of its answers.
pub mod Blocks
pub mod Reports
