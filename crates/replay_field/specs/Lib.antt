-- The words of a script line: numbers, HEX, and the command word.
pub mod Number
pub mod Hex
pub mod Word
