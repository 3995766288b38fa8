-- What the structs of an event's attempts stand for in the rules.
pub mod Attempts
