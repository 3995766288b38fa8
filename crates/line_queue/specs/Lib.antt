-- A job on a stream queue with lines.
pub mod Between
pub mod Runs
