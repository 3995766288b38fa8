-- What the replay program prints: the text of a line, HEX, and the checksum.
pub mod Text
pub mod Adler
pub mod Hex
