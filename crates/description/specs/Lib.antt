-- What a lawful description is, and the description of nothing.
pub mod Lawful
pub mod Nothing
