-- The small state of a card, and the card that it is a part of.
pub mod Live
pub mod Setters
