-- The memory lent, and what the guest's lines do to it.
pub mod Lent
