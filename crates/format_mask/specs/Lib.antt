-- Masks of formats, bit by bit.
pub mod Mask
