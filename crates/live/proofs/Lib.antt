-- The card of a small state, parts and words, under the register entries; its streams.
pub mod Laws
pub mod Streams
