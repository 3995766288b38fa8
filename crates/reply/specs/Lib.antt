-- A control message that is taken, and its completion.
pub mod Reply
