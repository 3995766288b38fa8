-- Latency records: what they are, what is counted of them, and the same block by block.
pub mod Records
pub mod Tally
