-- What the structs of a message stand for in the rules.
pub mod Message
pub mod Work
