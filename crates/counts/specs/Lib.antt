-- The three counts and how one becomes another.
pub mod Counts
