-- Any call of the monitor in the rules' terms, and lists of them.
pub mod Calls
pub mod Tied
pub mod Demand3
