-- The line of a stream that is worked or ended.
pub mod Work
