-- Numbers in decimal, read and written.
pub mod Read
pub mod Write
