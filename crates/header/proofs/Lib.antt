-- What the header for C says.
pub mod Sizes
pub mod Demand3
