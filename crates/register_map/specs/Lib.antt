-- Registers and queue sizes by their numbers.
pub mod Map
