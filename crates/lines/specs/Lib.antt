-- The lines of a text, and texts joined.
pub mod Lines
