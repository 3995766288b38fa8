-- The sample formats and their widths.
pub mod Widths
