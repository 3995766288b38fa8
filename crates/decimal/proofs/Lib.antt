-- Laws of numbers in decimal: read, written, and read back.
pub mod Folds
pub mod Reading
pub mod Writing
