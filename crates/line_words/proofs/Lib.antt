-- Parts of the words put back, and the lines that they then stand for.
pub mod Parts
pub mod Lines
pub mod Joins
pub mod Clears
