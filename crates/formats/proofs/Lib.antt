-- Laws of the table of widths.
pub mod Table
