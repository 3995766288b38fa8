-- A stream queue with lines as the code has it, and what it makes of a chain.
pub mod Queue
