-- What the program makes of a block, and what it answers.
pub mod Blocks
pub mod Reports
