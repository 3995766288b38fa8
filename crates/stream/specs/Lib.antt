-- A stream's queue in the card, and what a RELEASE makes of it.
pub mod Queue
