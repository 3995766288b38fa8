-- The registers of 002, 1.3 to 2.1, as 01 has them.
pub mod Answers
pub mod Map
pub mod Rules
pub mod Fit
