-- Texts of at most so many bytes.
pub mod Text
