-- The latency report as text, and what is read for it.
pub mod Report
pub mod Reading
