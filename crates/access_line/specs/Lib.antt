-- A line of the access program: what it reads as, and how it is collected byte by byte.
pub mod Line
pub mod Collect
