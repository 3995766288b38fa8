-- Laws of lines, and a table of examples.
pub mod Laws
pub mod Examples
