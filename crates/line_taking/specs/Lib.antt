-- A call's progress on a stream queue with lines.
pub mod Progress
