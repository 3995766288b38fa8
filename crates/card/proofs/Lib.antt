-- Laws of the card.
pub mod Lists
pub mod Keeps
pub mod Setters
