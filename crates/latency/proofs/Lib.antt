-- Laws of the report.
pub mod Lengths
pub mod Reports
pub mod Readings
