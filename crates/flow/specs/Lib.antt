-- What the structs of a flow stand for in the rules.
pub mod Flow
