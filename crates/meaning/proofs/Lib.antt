-- What holds of a card's words and pieces; power-up and the register entries are the rules' start and steps.
pub mod Words
pub mod Fits
pub mod Steps
pub mod Streams
pub mod Held
