-- The words of a stream queue with lines.
pub mod Slots
pub mod Joined
pub mod Cleared
