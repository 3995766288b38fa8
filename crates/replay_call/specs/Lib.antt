-- The calls of the replay program: what each prints and leaves.
pub mod Shown
pub mod Asked
