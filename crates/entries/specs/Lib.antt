-- An answer's number and queue side by side.
pub mod Entries
