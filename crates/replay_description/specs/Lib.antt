-- The description that a script collects, part by part.
pub mod Parts
