-- A table of examples.
pub mod Examples
