-- The items of information in a buffer.
pub mod Items
