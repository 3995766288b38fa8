-- The host buffers of a script's calls.
pub mod Host
