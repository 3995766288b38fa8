-- What a converted sample is, and what a conversion leaves.
pub mod Values
pub mod MuLaw
pub mod Formats
pub mod Outcome
pub mod Loops
pub mod Promise
