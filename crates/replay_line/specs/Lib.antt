-- A line of the replay program's script, and what it is.
pub mod Line
