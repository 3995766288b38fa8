-- The entries' calls follow the rules and the account; demand 3.
pub mod Whole
pub mod Tied
pub mod Reached
pub mod Demand3
