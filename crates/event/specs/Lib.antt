-- What an event changes of a card.
pub mod Event
