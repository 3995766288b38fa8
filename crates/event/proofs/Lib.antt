-- Laws of the card that sends an event.
pub mod Cards
